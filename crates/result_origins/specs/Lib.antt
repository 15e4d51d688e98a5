-- The origin set of a result.
pub mod Origins
