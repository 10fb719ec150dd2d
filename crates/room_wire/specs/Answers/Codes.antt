-- Refusals of messages.
use Rattle.std.specs.Prelude.{ℕ, List, codes}
use Rattle.room_wire.specs.declared.answers.code.Code.{Code}
use Rattle.room_wire.specs.declared.answers.code.Code.TheVariants.{BadSession, BadSlot, SeqMisordered, SeqFalseRetry}
use Rattle.room_wire.specs.declared.answers.code.Code.TheVariants.{SessionTaken, Delay, BadHttp, BadRoute, UnknownUser}
use Rattle.room_wire.specs.declared.answers.code.Code.TheVariants.{BadRequest, RetryUncached}

-- the status of a refusal (RFC 9110, section 15; which code has which is our own rule), and its body
abbrev pub refusal_parts : Code → ℕ × List ℕ
refusal_parts BadSession = (409, codes "{\"code\":20,\"error\":\"BADSESSION\"}")
refusal_parts BadSlot = (409, codes "{\"code\":21,\"error\":\"BADSLOT\"}")
refusal_parts SeqMisordered = (409, codes "{\"code\":22,\"error\":\"SEQ_MISORDERED\"}")
refusal_parts SeqFalseRetry = (409, codes "{\"code\":23,\"error\":\"SEQ_FALSE_RETRY\"}")
refusal_parts SessionTaken = (409, codes "{\"code\":24,\"error\":\"SESSION_TAKEN\"}")
refusal_parts RetryUncached = (409, codes "{\"code\":25,\"error\":\"RETRY_UNCACHED\"}")
refusal_parts Delay = (503, codes "{\"code\":30,\"error\":\"DELAY\"}")
refusal_parts BadHttp = (400, codes "{\"code\":40,\"error\":\"BAD_HTTP\"}")
refusal_parts BadRoute = (404, codes "{\"code\":41,\"error\":\"BAD_ROUTE\"}")
refusal_parts UnknownUser = (403, codes "{\"code\":42,\"error\":\"UNKNOWN_USER\"}")
refusal_parts BadRequest = (400, codes "{\"code\":43,\"error\":\"BAD_REQUEST\"}")
