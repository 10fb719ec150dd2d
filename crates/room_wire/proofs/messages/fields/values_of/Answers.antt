use Rattle.room_wire.proofs.Common.{◌≡◌, Bool, ◌∷◌, ◌++◌, [], true, false, take, map, get_or, ap, cond, sym, subst, ◌∙◌}
use Rattle.room_wire.proofs.Common.{append-nil, to_ascii_lowercase, bytes_eq, header_bytes, IsFound, values_named}
use Rattle.room_wire.proofs.Common.{has_name}
use Rattle.room_wire.specs.declared.messages.fields.Found.TheVariants.{Many}
use Rattle.room_wire.proofs.Lemmas.Messages.Values.{values_more, found_other, no_header}
use Rattle.room_wire.proofs.messages.fields.values_of.Goals.{then-same_name+in-Absent, then-same_name+in_default}
use Rattle.room_wire.proofs.messages.fields.values_of.Goals.{else-same_name}
use Rattle.room_wire.proofs.messages.fields.values_of.Goals as goal

pub loop-header-preserved : goal.loop-header-preserved
loop-header-preserved c =
    let name = c.args.name.now in
    let header = header_bytes c.args.buf.now (get_or c.args.headers.now c.loop-header.header-index no_header) in
    let seen =
    values_named name (map (header_bytes c.args.buf.now) (take c.loop-header.header-index c.args.headers.now)) in
    let more = values_more name c.args.buf.now c.args.headers.now
    c.loop-header.header-index no_header c.loop-header-test.true in
    let test : has_name name header ≡ c.same_name.result =
    sym (c.same_name.ensures
    ∙ ap (λ t. bytes_eq (map to_ascii_lowercase t) (map to_ascii_lowercase name)) c.of.ensures) in
    let add = λ (b : Bool) (e : c.same_name.result ≡ b). more
    ∙ ap (λ b. seen ++ cond b (header.1 ∷ []) []) (test ∙ e) in
    elim c.if-same_name.branch [
      | then-same_name+in-Absent w ↦
          let none = rw w.in-Absent.is at c.loop-header.invariant in
          rw w.found-is (add true w.if-same_name.true ∙ ap (λ t. t ++ header.1 ∷ []) none
          ∙ ap (λ t. t ∷ []) (sym w.of-in-Absent.ensures))
      | then-same_name+in_default w ↦
          rw w.found-is (subst (IsFound Many) (sym (add true w.if-same_name.true))
          (found_other c.loop-header.found seen header.1 w.in_default.not-Absent c.loop-header.invariant))
      | else-same_name w ↦
          rw w.found-is (subst (IsFound c.loop-header.found)
          (sym (add false w.if-same_name.false ∙ append-nil seen)) c.loop-header.invariant)
    ]
