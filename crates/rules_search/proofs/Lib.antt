pub mod CauseLaws
pub mod RoomLaws
