-- The union of two lists, written entry by entry.
mod Merging
