-- `Stream` has how a reader goes from part to part.
pub mod Stream
