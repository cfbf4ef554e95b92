pub mod Rooms
pub mod Moduli
pub mod Elimination
pub mod Maps
pub mod RoomsLemmas
pub mod ModuliLemmas
