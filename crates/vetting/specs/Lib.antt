-- What vetting answers.
pub mod Vet
pub mod Slices
