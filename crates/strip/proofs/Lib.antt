-- `Places` has where a place asks for a word, `Accepted` what an accepted strip says of itself and how long it is, `Examples` strips that antt reads.
pub mod Places
pub mod Accepted
pub mod Examples
