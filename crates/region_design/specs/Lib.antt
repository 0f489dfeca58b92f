-- `Design` has the volumes and middles that a design is made of, and what the call refuses and leaves.
pub mod Design
