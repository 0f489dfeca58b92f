-- `Laws` has the definition by what each call gives.
pub mod Laws
