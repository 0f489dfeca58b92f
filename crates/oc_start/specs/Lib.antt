-- `Start` has the volumes held and free, and the first design.
pub mod Start
