-- The assigning call, and what it promises besides.
pub mod Answer
pub mod Assigned
