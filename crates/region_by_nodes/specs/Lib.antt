-- `Nodes` has what marks an element by its nodes; `Steps` has the lists as the code writes them, which no caller must believe.
pub mod Nodes
pub mod Steps
