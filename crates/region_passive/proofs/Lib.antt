-- `Solid` has that the stages mark the elements that must stay solid; `Fits` has what a call that is not refused knows of its lists.
mod Solid
mod Fits
