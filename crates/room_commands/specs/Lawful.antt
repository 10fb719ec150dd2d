-- What the types of a command's parts promise. Laws that need it are false of a bare model, as of a path with 17 names.
use Rattle.std.specs.Prelude.{ℕ, ◌<◌, List}
use Rattle.std.specs.List.{AllByRecursion}
use Rattle.room_acl.specs.Bits.{IsMask, IsListFlags}
use Rattle.room_acl.specs.Principals.{IsPrincipal}
pub use Rattle.room_acl.specs.Entries.{IsWho, IsEntry}
use Rattle.room_records.specs.Names.{IsPath}
use Rattle.room_commands.specs.CommandModel.{CommandModel, paths_of}
use Rattle.room_commands.specs.CommandModel as C

abbrev pub AreBytes : List ℕ → Type 0
AreBytes bytes = AllByRecursion (λ b. b < 256) bytes

abbrev pub IsLawful : CommandModel → Type 0
IsLawful (C.Create bytes path) = AreBytes bytes × IsPath path
IsLawful (C.Write bytes path) = AreBytes bytes × IsPath path
IsLawful (C.Append bytes path) = AreBytes bytes × IsPath path
IsLawful (C.Rename path to) = IsPath path × IsPath to
IsLawful (C.SetList aclflag entries path) = IsListFlags aclflag × AllByRecursion IsEntry entries × IsPath path
IsLawful (C.Chown group owner path) = IsPrincipal group × IsPrincipal owner × IsPath path
IsLawful (C.Access mask path) = IsMask mask × IsPath path
IsLawful command = IsPath (paths_of command).0
