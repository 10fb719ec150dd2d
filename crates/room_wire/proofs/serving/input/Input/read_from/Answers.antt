use Rattle.room_wire.proofs.Common.{◌≡◌, ◌≤◌, ◌-◌, ◌+◌, take, length, List, ◌++◌, ℕ, ap, arith, ◌∙◌, slice_range}
use Rattle.room_wire.proofs.Common.{put_mid, with_items_is, length-take-le}
use Rattle.room_wire.proofs.Lemmas.Messages.Boundaries.{front_then, whole_length}
use Rattle.room_wire.proofs.serving.input.Input.read_from.Goals as goal

pub returns-clause-ok : goal.returns-clause-ok
returns-clause-ok g c =
    let i = c.self.inside in
    let v = c.move_to_front.new.buffer in
    let old : List ℕ = c.deref_mut.result.now in
    let new : List ℕ = c.read.new.buf in
    let e : ℕ = i.end - i.start in
    let n : ℕ = c.in_ok-count.count in
    let long : length old ≡ v.len = omega (arith, c.deref_mut.ensures.len) in
    let inside : e ≤ length old = omega (arith, c.move_to_front.ensures.len, i.buffer.ok.0, c.self.invariant.1) in
    let same = whole_length old new e v.len long (omega arith)
    (omega (arith, c.read.auto.buf, c.deref_mut.ensures.len)) in (
      take n new,
      c.in_ok-count.ensures.bytes.0,
      ap (λ (t : List ℕ). slice_range t 0 (e + n)) (with_items_is v (put_mid e (length old - e) old new) same)
          ∙ front_then old new e n _ inside c.in_ok-count.ensures.bound.0
          ∙ ap (λ (t : List ℕ). t ++ take n new)
          (ap (take e) c.deref_mut.ensures.value ∙ c.move_to_front.ensures.front ∙ c.self.view_is),
      length-take-le n new c.in_ok-count.ensures.bound.0,
    )
