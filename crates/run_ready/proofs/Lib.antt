-- The laws of clear work slices.
mod Clearing
