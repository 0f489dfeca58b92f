-- `Laws` has the definitions by what each call gives.
pub mod Laws
