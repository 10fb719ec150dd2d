-- A shelf that remembers, as contracts see it.
use Rattle.room_records.specs.Shelf.{View}
use Rattle.room_cache.specs.declared.known.Known.{Known}
use Rattle.room_cache.specs.Known.{IsTrueOf}

-- It is the shelf inside, and laid out where that is and what is remembered is what its records are
abbrev pub cached_view : {S : Type 0} → (S → View) → S × Known → View
cached_view view shelf =
    record (view shelf.0) { is_laid_out = (view shelf.0).is_laid_out × IsTrueOf shelf.1 (view shelf.0).records }
