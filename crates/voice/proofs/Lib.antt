-- Laws behind the functions' proofs.
mod Taps
mod Subframes
