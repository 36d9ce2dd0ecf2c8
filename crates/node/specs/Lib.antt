-- The matrix, the instance and the node (01: sailings, duties, prices; the node's marks), and the list functions that the rules use.
pub mod Lists
pub mod Passes
pub mod Matrix
pub mod Node
pub mod View
pub mod Stored
pub mod Taking
