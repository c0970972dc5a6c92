-- The line spectral pairs of a prediction filter. One notion a file.
pub mod Chebyshev
pub mod Pairs
