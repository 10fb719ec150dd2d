use Rattle.room_acl.proofs.Common.{◌≡◌, ◌++◌, drop, handed_down}
use Rattle.room_acl.proofs.inheritance.hand_down.Given as goal

-- what was given so far, and what the rest gives, is what the whole list gives
abbrev pub invariant-loop-entry : goal.invariant-loop-entry
invariant-loop-entry l =
    l.given.items ++ handed_down (drop l.entry-index l.entries) l.kind ≡ handed_down l.entries l.kind
