-- Laws of the kind table's rows, and of the code that applies them.
pub mod FindKind
pub mod Kept
pub mod HeldLaws
pub mod FamilyLaws
pub mod WordLaws
pub mod KindRowLaws
