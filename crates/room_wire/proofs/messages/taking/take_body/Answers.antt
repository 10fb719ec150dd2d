use Rattle.room_wire.proofs.Common.{◌≤◌, ◌+◌, length, arith, refl, sym, subst, ap, ◌∙◌, slice_range, inr, IsUtf8}
use Rattle.room_wire.proofs.Common.{body_length}
use Rattle.room_wire.proofs.Lemmas.Messages.Fronts.{Parsed, never_by_fields, none_yet, message_at, message_size}
use Rattle.room_wire.proofs.Lemmas.Messages.Fronts.{few_fields, window_length}
use Rattle.room_wire.proofs.Lemmas.Messages.Lacking.{lacks_body}
use Rattle.room_wire.proofs.messages.taking.take_body.Goals as goal

pub returns-in_default : goal.returns-in_default
returns-in_default c =
    let at = c.requires.complete.1 in
    let p : Parsed c.args.input.now c.args.window.now c.args.head.len c.requires.complete.0 =
    record { window_is = c.requires.window; reads = at.reads; len_is = at.len } in (
      never_by_fields _ _ _ _ p (sym (ap body_length at.fields) ∙ sym c.body_length.ensures.value ∙ c.in_default.is),
      c.requires.some,
    )

pub overflow_sub-input : goal.overflow_sub-input
overflow_sub-input c =
    let fits = window_length _ _ c.requires.window in
    omega (arith, fits.1, c.requires.within.section.len_fits)

pub returns-then-input-head : goal.returns-then-input-head
returns-then-input-head c =
    let at = c.requires.complete.1 in
    let fits = window_length _ _ c.requires.window in
    let states = sym (ap body_length at.fields) ∙ sym c.body_length.ensures.value ∙ c.in-Some.is in
    let p : Parsed c.args.input.now c.args.window.now c.args.head.len c.requires.complete.0 =
    record { window_is = c.requires.window; reads = at.reads; len_is = at.len } in (
      none_yet _ _ _ c.in-Some.length _ p states (omega (arith, fits.1, c.requires.within.section.len_fits)),
      omega (arith, fits.0, fits.1, c.requires.within.section.len_fits, c.in-Some.ensures.within),
      inr (lacks_body _ _ _ c.in-Some.length _ p states (omega (arith, fits.1, c.requires.within.section.len_fits))
          (omega (arith, fits.1, c.requires.within.section.len_fits))
          (omega (arith, fits.0, c.requires.within.section.len_fits))
          (omega (arith, few_fields _ c.args.spans _ _ at.fields, c.requires.within.section.count_fits))),
    )

pub slice_bounds-result-end : goal.slice_bounds-result-end
slice_bounds-result-end c =
    let fits = window_length _ _ c.requires.window in
    let inside : c.args.head.len + c.in-Some.length ≤ length c.args.input.now =
    omega (arith, fits.1, c.requires.within.section.len_fits) in
    inside

pub returns : goal.returns
returns c =
    let at = c.requires.complete.1 in
    let fits = window_length _ _ c.requires.window in
    let inside : c.args.head.len + c.in-Some.length ≤ length c.args.input.now =
    omega (arith, fits.1, c.requires.within.section.len_fits) in
    let states = sym (ap body_length at.fields) ∙ sym c.body_length.ensures.value ∙ c.in-Some.is in
    let p : Parsed c.args.input.now c.args.window.now c.args.head.len c.requires.complete.0 =
    record { window_is = c.requires.window; reads = at.reads; len_is = at.len } in (
      record {
        head = c.requires.complete.0;
        body = slice_range c.args.input.now c.args.head.len (c.args.head.len + c.in-Some.length);
      },
      message_at _ _ _ _ c.in-Some.length _ p states refl inside
          (omega (arith, fits.0, c.requires.within.section.len_fits))
          (omega (arith, few_fields _ c.args.spans _ _ at.fields, c.requires.within.section.count_fits)),
      record {
        method = c.of.ensures ∙ at.method;
        target = c.text_of.ensures ∙ c.of-2.ensures ∙ at.path;
        fields = at.fields;
        body = refl;
        minor = at.version;
        size = message_size _ _ _ c.in-Some.length _ at.len refl inside;
      },
    )

pub text_of-requires : goal.text_of-requires
text_of-requires c =
    let at = c.requires.complete.1 in
    subst IsUtf8 (sym (c.of-2.ensures ∙ at.path)) at.reads.0.target_text
