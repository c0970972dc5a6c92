-- Laws behind the functions' proofs.
mod InPlace
mod Sets
