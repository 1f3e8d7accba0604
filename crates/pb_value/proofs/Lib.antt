pub mod EscapeLemmas
pub mod Fp2Lemmas
pub mod HexLemmas
pub mod ShapeLemmas
pub mod TimeLemmas
