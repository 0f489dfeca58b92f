-- `Cells` has the cubes of points and the blocks about one; `Filing` has how the code files points, which no caller must believe.
pub mod Cells
pub mod Filing
