-- The library's minimum and maximum.
mod Reduced
