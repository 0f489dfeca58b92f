-- `Asymmetry` has what the call refuses, gives and leaves; `Held` has its lists as the code holds them; `Steps` has what the code's steps promise each other, which no caller must believe.
pub mod Asymmetry
pub mod Held
pub mod Steps
