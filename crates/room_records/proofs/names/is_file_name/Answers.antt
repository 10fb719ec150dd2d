use Rattle.room_records.proofs.Common.{arith, is_file_name}
use Rattle.std.proofs.lemmas.Bool.Decides.{nat_tests}
use Rattle.std.proofs.lemmas.Str.{is_utf8-from_IsUtf8}
use Rattle.room_records.proofs.names.is_file_name.Goals as goal

pub returns-then-ne : goal.returns-then-ne
unfolding is_file_name
returns-then-ne c = let text = is_utf8-from_IsUtf8 c.args.text.now c.utf8.text in grind (arith, nat_tests)

pub returns-else-ne : goal.returns-else-ne
unfolding is_file_name
returns-else-ne c = let text = is_utf8-from_IsUtf8 c.args.text.now c.utf8.text in grind (arith, nat_tests)
