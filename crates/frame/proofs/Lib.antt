-- Laws behind the functions' proofs.
mod Halves
mod Windows
