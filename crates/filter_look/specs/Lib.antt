-- `Ready` has what a walk goes by, and `Steps` what the steps of the code promise each other, which no caller must believe.
pub mod Ready
pub mod Steps
