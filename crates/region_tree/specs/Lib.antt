-- `Tree` has the tree of boxes over triangles; `Split` has it without places, as it is once no triangle stands twice; `Steps` has how the code stores it, which no caller must believe.
pub mod Split
pub mod Steps
pub mod Tree
