mod AllCodes
mod Copies
mod Inverses
