pub mod ReadShows
pub mod RoomRuns
