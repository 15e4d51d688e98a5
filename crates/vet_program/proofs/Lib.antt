-- The laws of a sheet under way on kinds.
mod Going
