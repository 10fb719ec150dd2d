-- The text of a roster's file.
use Rattle.std.specs.Prelude.{is_some, option_map}
use Rattle.std.specs.declared.alloc.Global.{Global}
use Rattle.room_program.proofs.Common.{◌≡◌, ◌≢◌, true, Option, None, Some, String, string_bytes}

-- it could be read before, and cannot be now
pub was_read : (text : Option (String Global)) → is_some text ≡ true → None ≢ option_map string_bytes text
was_read (Some text) is same = let e = same in cc
was_read None is same = let e = is in cc
