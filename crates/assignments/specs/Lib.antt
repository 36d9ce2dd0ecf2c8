-- What an assignment is and which one is asked for; the same, computed over all assignments; and by sets of used vessels, as the code does.
pub mod Assignment
pub mod Cheapest
pub mod Sets
