-- `Accepted` has what holds where a design is not refused, and where it is.
mod Accepted
