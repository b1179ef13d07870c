pub mod Examples
pub mod HexNumbers
pub mod HexTexts
pub mod Pieces
