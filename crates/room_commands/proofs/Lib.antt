mod Common
pub mod Shorthands
pub mod Rights
pub mod Renaming
pub mod RoomsNew
pub mod RoomsObject
pub mod RoomsWithout
pub mod RoomsRenamed
pub mod RenamedIsRoom
pub mod ChecksTell
pub mod SetListKept
pub mod EffectIsRoom
pub mod RoomLaws
pub mod RightsSuffice
pub mod OwnersLists
pub mod Protected
pub mod Looks
pub mod DepthTells
pub mod SeenShows
pub mod NothingShows
pub mod BytesAlone
pub mod SameParts
pub mod Staying
pub mod CommandsStay
pub mod Others
pub mod OtherBytes
pub mod Elsewhere
pub mod NamesUnseen
pub mod Unseen
pub mod ListsUnseen
pub mod LeftShows
mod Examples
mod SightExamples
mod UnseenExamples
