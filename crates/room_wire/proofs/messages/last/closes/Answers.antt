use Rattle.room_wire.proofs.Common.{◌≡◌, ℕ, Bool, List, ◌∷◌, ◌++◌, [], true, false, take, map, get_or, ap, cond, sym}
use Rattle.room_wire.proofs.Common.{◌∙◌, codes, refl, or-true, or-false, list_any, to_ascii_lowercase, bytes_eq}
use Rattle.room_wire.proofs.Common.{header_bytes, values_named, has_name, lists_close}
use Rattle.room_wire.proofs.Lemmas.Messages.Values.{values_more, no_header, any_more}
use Rattle.room_wire.proofs.messages.last.closes.Goals.{then-same_name+then-lists_close, else-same_name}
use Rattle.room_wire.proofs.messages.last.closes.Goals.{else-same_name-via-then-same_name+else-lists_close}
use Rattle.room_wire.proofs.messages.last.closes.Goals.{else-same_name-via-else-same_name}
use Rattle.room_wire.proofs.messages.last.closes.Goals as goal

lists_close_of : {value text : List ℕ} {b : Bool} → text ≡ value → b ≡ lists_close text → lists_close value ≡ b
lists_close_of e f = ap lists_close (sym e) ∙ sym f

pub loop-header-preserved : goal.loop-header-preserved
loop-header-preserved c =
    let name = codes "connection" in
    let header = header_bytes c.args.buf.now (get_or c.args.headers.now c.loop-header.header-index no_header) in
    let seen =
    values_named name (map (header_bytes c.args.buf.now) (take c.loop-header.header-index c.args.headers.now)) in
    let more = values_more name c.args.buf.now c.args.headers.now
    c.loop-header.header-index no_header c.loop-header-test.true in
    let test : has_name name header ≡ c.same_name.result =
    sym (c.same_name.ensures
    ∙ ap (λ t. bytes_eq (map to_ascii_lowercase t) (map to_ascii_lowercase name)) c.of.ensures) in
    let add = λ (b l : Bool) (e : c.same_name.result ≡ b) (f : lists_close header.1 ≡ l).
    any_more lists_close seen header.1 b l c.loop-header.close c.loop-header.invariant f
    ∙ ap (list_any lists_close) (sym (more ∙ ap (λ b. seen ++ cond b (header.1 ∷ []) []) (test ∙ e))) in
    elim c.if-same_name.branch [
      | then-same_name+then-lists_close w ↦
          rw w.close-is (sym (or-true c.loop-header.close) ∙ add true true w.if-same_name.true
          (lists_close_of w.of-then-same_name.ensures w.lists_close.ensures ∙ w.if-lists_close.true))
      | else-same_name w ↦
          elim w.else-same_name.branch [
            | else-same_name-via-then-same_name+else-lists_close w' ↦
                rw w.close-is (sym (or-false c.loop-header.close) ∙ add true false w'.if-same_name.true
                (lists_close_of w'.of-then-same_name.ensures w'.lists_close.ensures ∙ w'.if-lists_close.false))
            | else-same_name-via-else-same_name w' ↦
                rw w.close-is (sym (or-false c.loop-header.close)
                ∙ add false (lists_close header.1) w'.if-same_name.false refl)
          ]
    ]
