use Rattle.room_wire.proofs.Common.{◌≡◌, length, lists_close}
use Rattle.room_wire.proofs.messages.last.lists_close.Given as goal

abbrev pub invariant-parts : goal.invariant-parts
invariant-parts l = lists_close l.rest ≡ lists_close l.value

abbrev pub decreases-parts : goal.decreases-parts
decreases-parts l = length l.rest
