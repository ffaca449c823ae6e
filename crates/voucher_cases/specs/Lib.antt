pub mod OneName
