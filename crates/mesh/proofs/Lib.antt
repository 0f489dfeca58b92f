-- `Nodes` has what is read past the end of the nodes.
mod Nodes
