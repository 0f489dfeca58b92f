-- `Outcome`: the build of the filter after the checks. `Opens`: what each way out comes to.
pub mod Outcome
pub mod Opens
