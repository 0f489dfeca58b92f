-- `Passive` has the elements that must stay solid, and what the call refuses and leaves; `Held` has the call's lists as the code holds them; `Steps` has its parts, which no caller must believe.
pub mod Held
pub mod Passive
pub mod Steps
