-- `Prefix`: a part at the front that is lent and given back. `Laws`: what each verdict comes to.
pub mod Prefix
pub mod Laws
