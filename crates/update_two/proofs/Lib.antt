-- `Laws` has the volume kept by what each element adds.
pub mod Laws
