use Rattle.room_desk.proofs.OwnRequests.{uncached_is_own}
use Rattle.room_desk.proofs.laws.retry_uncached_tells_of_an_own_request.Goals as goal

pub returns : goal.returns
returns c = uncached_is_own
