-- `Triangles` has the triangles on the sides of the box; `Steps` has what the steps of the code promise each other, which no caller must believe.
pub mod Triangles
pub mod Steps
