-- `Laws`: what each way out of an opening comes to, from what its calls leave.
pub mod Laws
