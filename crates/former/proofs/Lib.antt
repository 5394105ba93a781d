-- The theorem of specs/Former.
pub mod Former
