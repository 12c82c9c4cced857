-- The laws of this crate; beside them stands a folder for each function that has a proof.
pub mod HexLaws  -- hex digits tested, read and spelt in pairs
pub mod PutLaws  -- bytes put one after another; a text that has room or not
pub mod FieldLaws  -- words that stand for bytes, case by case
