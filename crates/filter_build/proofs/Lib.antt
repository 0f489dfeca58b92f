-- `Laws`: what each way out of a build comes to. `Formed`: what an accepted build leaves is well formed, its rows in rising order. `Case`: 01's proved case.
pub mod Laws
pub mod Formed
pub mod Case
