-- Both conversions of a line set.
pub mod Convert
