-- What the functions of `ieee` mean, over the kit's account of IEEE 754 (`lib.Ieee`).
pub mod Basic
