-- Laws behind the functions' proofs.
mod Lines
mod Given
